-- One event of a world: what stands in its maps and lists, its refusals, and its effects.
pub mod Packets
pub mod Members
pub mod LiveIds
pub mod Places
pub mod NodeChanges
pub mod Refusing
pub mod EventEffects
