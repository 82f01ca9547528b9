pub mod CommandLines
pub mod Lists
pub mod Said
pub mod WordRules
pub mod Words
