-- What calls that hand a queue back keep, and what a refused one says of it: the words of sessions.
pub use Rattle.ppq_session.specs.Refusal.{Keeps, HasRoom, HasNoRoom, IsRefusedBy}
