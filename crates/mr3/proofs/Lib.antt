pub mod FairCall
pub mod Goes
pub mod Unique
