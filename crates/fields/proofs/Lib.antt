pub mod Tests
pub mod BytesLaws
pub mod BytesTurns
pub mod PageLaws
pub mod FieldLaws
pub mod BitsLaws
