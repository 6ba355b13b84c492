mod Behind
mod Growing
