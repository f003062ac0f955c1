mod FoundNumbers
