pub mod StageLaws
pub mod SenseLaws
pub mod StepLaws
pub mod ServedLaws
pub mod FreshLaws
pub mod RoomLaws
pub mod Only
