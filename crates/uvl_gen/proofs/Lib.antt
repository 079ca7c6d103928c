mod Numbers
mod Features
