mod Spelled
mod ReportsOne
pub mod Parts
pub mod FactsThere
mod ClausesThere
pub mod NodesThere
mod NumberedThere
mod RowsFound
pub mod FactsFound
mod ClausesFound
pub mod NodesFound
mod Goes
mod NumberedFound
mod ReportsRead
