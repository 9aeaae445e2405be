pub mod ByteLaws
pub mod SymbolLaws
pub mod TokenLaws
pub mod QuotedLaws
pub mod PastLaws
pub mod AutomatonLaws
pub mod NumberLaws
pub mod PieceLaws
