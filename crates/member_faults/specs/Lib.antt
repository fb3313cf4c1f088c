pub mod MemberFaults
