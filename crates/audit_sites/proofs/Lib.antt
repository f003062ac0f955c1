mod HostLaws
mod ReadLaws
mod OpenedLaws
