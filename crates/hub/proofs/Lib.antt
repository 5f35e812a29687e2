pub mod CallLaws
pub mod HubLaws
