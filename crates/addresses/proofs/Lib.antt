pub mod AddressLaws
