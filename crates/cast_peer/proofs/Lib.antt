mod Knowing
mod Linking
mod Receiving
