-- From where walks through the nodes of a table may begin.
pub mod Starts
pub mod Tables
