-- Lists that get their room before the threads start.
--     HasEndRoom n room          room for what n engines leave
--     HasRoom n k room           and for what is gathered from k jobs
use Rattle.std.specs.Prelude.{ℕ}
use Rattle.cast_carrier.specs.Lists.{IsRoomFor}
use Rattle.cast_run.specs.declared.room.EndRoom.{EndRoom}
use Rattle.cast_run.specs.declared.room.Room.{Room}

pub record HasEndRoom (n : ℕ) (room : EndRoom) : Type 0 where
  pub takers : IsRoomFor n room.takers
  pub reports : IsRoomFor n room.reports
  pub desks : IsRoomFor n room.desks

pub record HasRoom {J : Type 0} (n k : ℕ) (room : Room J) : Type 0 where
  pub ends : HasEndRoom n room.ends
  pub left : IsRoomFor n room.left
  pub jobs : IsRoomFor k room.jobs
  pub drafts : IsRoomFor k room.drafts
  pub clients : IsRoomFor k room.clients
