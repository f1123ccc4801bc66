-- Laws of rows, in reading order.
pub mod ReadyLaws
pub mod SizeLaws
pub mod ShapeLaws
