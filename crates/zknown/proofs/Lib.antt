mod Spotting
