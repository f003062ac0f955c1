mod Fronts
mod HostSteps
mod CallCounts
mod LinkAdds
