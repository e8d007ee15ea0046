pub mod Numbers
pub mod Lists
pub mod Results
pub mod Laws
