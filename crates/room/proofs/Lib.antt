pub mod EnoughLaws
pub mod FrameLaws
pub mod FileLaws
pub mod NestLaws
pub mod WhereLaws
pub mod MoveLaws
pub mod StartLaws
