mod Found
mod Limits
mod OneAnswer
mod Told
