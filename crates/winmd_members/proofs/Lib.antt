pub mod ItemLaws
pub mod EarlierLaws
pub mod MemberLaws
pub mod MethodLaws
