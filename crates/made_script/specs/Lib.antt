pub mod MadeHosts
pub mod MadeReplies
pub mod MadeTurns
pub mod MadeLines
pub mod GoodConf
