mod Acting
mod Examples
