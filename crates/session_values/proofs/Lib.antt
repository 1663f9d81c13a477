-- Each function is proved by what the number of its kind is told to be, and a list by its channels.
mod Lists
