pub mod ParamLaws
pub mod InvokeLaws
