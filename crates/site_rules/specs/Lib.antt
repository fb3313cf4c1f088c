pub mod SiteRules
