pub mod CopyLaws
pub mod MadeLaws
pub mod StartLaws
pub mod ThreeLaws
pub mod TurnLaws
