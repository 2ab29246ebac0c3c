pub mod KeyLaws
pub mod WordLaws
pub mod ShapeLaws
pub mod TextLaws
pub mod TabledLaws
pub mod BarsLaws
pub mod CountLaws
pub mod JudgedLaws
