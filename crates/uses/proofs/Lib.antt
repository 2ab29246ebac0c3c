pub mod HeadLaws
pub mod WalkLaws
pub mod NodeLaws
pub mod PathLaws
pub mod FollowLaws
pub mod HandLaws
pub mod EndLaws
pub mod UseLaws
