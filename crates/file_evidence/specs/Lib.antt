pub mod WholeFiles
