pub mod UnlikeIfaces
