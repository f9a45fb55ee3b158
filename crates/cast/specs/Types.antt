-- The types that contracts and definitions of the crates above name.
pub use Rattle.cast_message.specs.declared.config.Config.{Config}
pub use Rattle.cast_message.specs.declared.message.Item.{Item}
pub use Rattle.cast_message.specs.declared.message.Item.TheVariants.{Data, Propose, Close}
pub use Rattle.cast_message.specs.declared.message.Message.{Message}
pub use Rattle.cast_journal.specs.declared.order.OrderIn.{OrderIn}
pub use Rattle.cast_desk.specs.declared.notice.Notice.{Notice}
pub use Rattle.cast_desk.specs.declared.notice.Notice.TheVariants.{Reply, Delivered, Decided}
pub use Rattle.cast_message.specs.declared.plan.Fault.{Fault}
pub use Rattle.cast_run.specs.declared.reports.ClientReport.{ClientReport}
