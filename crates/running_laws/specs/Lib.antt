-- That a typed program can run. HasNumbers says which trees have only constants of 32 bits, as all that are parsed have.
pub mod HasNumbers
