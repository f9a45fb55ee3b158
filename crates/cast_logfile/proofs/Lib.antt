mod Taking
mod Firsts
mod Misfits
