-- What is claimed of try-outs.
pub mod Computed
pub mod Showing
