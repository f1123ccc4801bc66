-- That the key's own call at an address is one call, in reading order.
pub mod AddressLaws
pub mod OwnLaws
pub mod PlaceLaws
pub mod OwnOnce
