mod ChildSteps
