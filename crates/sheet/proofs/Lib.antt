pub mod ChunkLaws
pub mod PairLaws
pub mod RefusalLaws
pub mod SheetLaws
pub mod Told
