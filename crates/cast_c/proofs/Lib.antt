mod AsJudgeBox
mod AsPeerBox
mod AsWorldBox
mod Holds
mod NewPeers
