-- Audited memory represents a model, and what represents one passes the audit, proved: nothing here has to be believed.
pub mod RebuildWalk
pub mod RebuildObjects
pub mod RebuildRegions
pub mod RebuildIds
pub mod RebuildTree
pub mod RebuildStack
pub mod RebuildPages
pub mod RebuildLaid
pub mod RebuildTiles
pub mod Rebuild
pub mod AuditedObjects
pub mod AuditedLists
pub mod AuditedPages
pub mod AuditedRegions
pub mod AuditedHeld
pub mod Audited
pub mod Good
