pub mod PutsLaws
pub mod DecimalLaws
pub mod HexLaws
