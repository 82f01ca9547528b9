pub mod Syncs
pub mod Synced
pub mod Unsyncing
pub mod Laid
pub mod Synchronised
