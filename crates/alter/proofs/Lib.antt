pub mod AlterLaws
