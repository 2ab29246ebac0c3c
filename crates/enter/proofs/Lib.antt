pub mod EnterLaws
