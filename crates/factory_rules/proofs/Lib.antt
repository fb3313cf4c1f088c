mod ArityLaws
mod SiteLaws
