pub mod UnlikeLaws
