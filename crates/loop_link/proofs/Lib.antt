pub mod ReceivedCalls
pub mod WaitSteps
pub mod WaitEnds
pub mod Notes
