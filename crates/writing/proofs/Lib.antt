pub mod CountLaws
pub mod LoopLaws
pub mod PutLaws
pub mod WriteCallLaws
pub mod WriteLaws
