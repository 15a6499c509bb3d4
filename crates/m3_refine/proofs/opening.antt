pub mod PlaceOneByOne
pub mod PlaceOne
pub mod PlaceAll
pub mod HomesAndContexts
pub mod OpensSound
pub mod OpensRefines
pub mod ContextTable
