pub mod ActionCases
