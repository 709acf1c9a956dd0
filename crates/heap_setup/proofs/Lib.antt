pub mod FreshLaws
