-- `Rest`: the answers of a watch that a conversion leaves over.
mod Rest
