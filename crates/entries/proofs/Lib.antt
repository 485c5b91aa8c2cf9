-- shifts and peels, blocks, lists and ranges as rows of numbers
pub mod Laws
