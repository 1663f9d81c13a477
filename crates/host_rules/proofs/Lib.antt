-- `Claims`: what a host finds fixes the library's answer.
mod Claims
