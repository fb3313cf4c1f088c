pub mod DefaultLaws
